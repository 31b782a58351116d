-- Further rules, offered for a later landing: `check_image` knows none of them.
pub mod Further
-- what is derived by the published and the further rules together
pub mod Union
-- programs as lists, and certificates for them with a test that computes
pub mod Example
pub mod Certificate
-- the programs
pub mod Programs
