pub mod FitTreeAgrees
pub mod TableRows
pub mod RuleForms
pub mod TableAgrees
pub mod HolesAgree
pub mod RowHoles
