pub mod IndexLaws
pub mod LimitLaws
pub mod NetlistSteps
pub mod PlanLaws
pub mod RuleLaws
