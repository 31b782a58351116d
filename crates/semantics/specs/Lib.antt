-- What demand 3 says, in the order of the scope page: formulas, machine, truth, every run.
pub mod Base
pub mod Limits
pub mod Code
pub mod Formula
pub mod Replace
pub mod Eval
pub mod Machine
pub mod Truth
pub mod EveryRun
-- which names occur in a formula: what the side conditions of rules ask for
pub mod Names
