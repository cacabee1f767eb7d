-- What a run within a budget leaves. Definitions only.
pub mod Results
