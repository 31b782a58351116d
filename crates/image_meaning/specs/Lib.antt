pub mod Formulas
pub mod Program
pub mod Certificate
pub mod Image
