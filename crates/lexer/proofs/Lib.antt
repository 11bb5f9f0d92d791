pub mod FirstLemmas
pub mod TokenListLemmas
pub mod ViabilityLemmas
