-- The rules as a table of schemas, with a test that computes. Proved equal to the rules of the logic: nothing here has to be believed.
pub mod Pattern
pub mod Rules
pub mod Fits
