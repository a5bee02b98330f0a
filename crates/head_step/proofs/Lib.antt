pub mod StepLaws
pub mod LinesLaws
