-- Laws of the scan and of the lowerable test.
pub mod LowerableTest
pub mod Scans
