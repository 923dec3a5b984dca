mod AccessCases
mod AttackCases
mod CaseStates
mod Elements
mod ForkCases
pub mod GuardedPages
mod HistoryCases
pub mod HistoryLemmas
pub mod HostMappings
pub mod LinesUnderWay
mod MakingCases
pub mod OwnedPages
pub mod ProgressLemmas
mod ProtectionLemmas
pub mod Refusals
mod RunCases
pub mod ScriptLines
mod ShadowCases
pub mod ShadowLemmas
pub mod ShadowPages
pub mod StatesStay
pub mod Unattacked
