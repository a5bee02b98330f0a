pub mod HitLaws
pub mod OpenLaws
