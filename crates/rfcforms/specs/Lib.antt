pub mod XmlTags
pub mod XmlReferences
pub mod XmlPieces
pub mod Lists
pub mod ListSearches
