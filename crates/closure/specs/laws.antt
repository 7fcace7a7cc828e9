-- What is proved of making a fresh store and of adding to one.
pub mod Refusals
pub mod Demand3
pub mod FormUnder
pub mod FormIn
pub mod FormLink
pub mod FormSame
pub mod FormRole
pub mod Keeps
pub mod Included
pub mod FreshLaws
pub mod UnderLaws
pub mod InLaws
pub mod LinkLaws
pub mod SameLaws
pub mod RoleLaws
