pub mod DeclRules
pub mod DefRules
pub mod DepthLaws
pub mod Enclosing
pub mod ExprRules
pub mod MemberRules
pub mod ParseLaws
mod ParseRows
pub mod Terminals
pub mod TypeRules
pub mod ValueLaws
mod ValueRows
