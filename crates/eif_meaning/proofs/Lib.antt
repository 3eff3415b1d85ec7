pub mod EndlessRun
pub mod LongTexts
pub mod RunsGrow
pub mod StepsGrow
