pub mod BalancerRuns
pub mod NatRuns
pub mod FirewallRuns
pub mod RowPlans
pub mod WrongRuns
