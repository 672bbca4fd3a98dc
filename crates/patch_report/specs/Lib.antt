-- What the function that lends records promises.
pub mod Lending
