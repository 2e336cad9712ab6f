pub mod DualsText
pub mod PlanText
pub mod SiteTable
pub mod Json
pub mod Figures
pub mod Values
