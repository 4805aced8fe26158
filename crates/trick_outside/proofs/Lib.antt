pub mod CauseLemmas
pub mod CallLemmas
pub mod DoesLemmas
pub mod WriteLemmas
pub mod PieceLemmas
pub mod KeptLemmas
pub mod LinkLemmas
mod Examples
