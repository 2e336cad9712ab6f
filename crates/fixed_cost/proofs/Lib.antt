pub mod Spelling
pub mod Ends
pub mod ReadSteps
pub mod ReadFacts
pub mod Printed
