-- The program logic, in the order of the scope page: rules, obligations and claims.
pub mod Rows
pub mod Table
pub mod Statement
pub mod Opcode
pub mod Rule
pub mod RuleNumbers
pub mod Inference
pub mod Obligations
pub mod Claims
-- what soundness needs of a program, and a certificate's statements as derivations
pub mod WellFormed
pub mod Derivation
