pub mod RoleLaws
pub mod InsideLaws
