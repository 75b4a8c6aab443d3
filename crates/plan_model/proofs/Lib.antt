mod DemoLines
pub mod DemoPlans
mod EffectRows
mod EvaluationRows
mod FormRows
mod HoldingRows
pub mod LeavingLaws
mod LineRows
mod MisfitRows
mod OrderRows
pub mod PlanLaws
mod RootRows
mod ServiceRows
mod StackRows
mod TextRows
mod TwiceRows
mod UnknownRows
pub mod VerdictLaws
