pub mod PegiCommand
