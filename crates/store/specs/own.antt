-- What the functions on a store's words do: no promise of an entry point mentions it.
pub mod Laid
pub mod Look
pub mod RoleWord
pub mod View
