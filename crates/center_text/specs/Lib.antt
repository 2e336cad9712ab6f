pub mod CenterText
