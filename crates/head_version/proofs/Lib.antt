pub mod VersionLaws
