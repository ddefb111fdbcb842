pub mod InSlices
pub mod InCampaigns
pub mod InSurveys
pub mod InComparisons
pub mod OtherRuns
