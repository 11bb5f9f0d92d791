pub mod CanonicalAbnf
pub mod FormedAbnf
pub mod AbnfReadBack
