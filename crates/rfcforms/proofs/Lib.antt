pub mod ListLemmas
pub mod ListSearchLemmas
pub mod XmlPieceLemmas
