pub mod Capped
pub mod FileLemmas
pub mod ContentLemmas
pub mod WriteLemmas
pub mod Truths
pub mod Results
pub mod Numbers
pub mod ListLemmas
