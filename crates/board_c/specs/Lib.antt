-- What the calls for C promise.
pub mod CalledByC
