pub mod AbnfiCommand
