pub mod CallSteps
pub mod Chains
pub mod Examples
pub mod Existence
pub mod FollowsLedger
pub mod Finds
pub mod Outcomes
pub mod Replies
