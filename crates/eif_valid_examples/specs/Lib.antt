pub mod ValidExamples
