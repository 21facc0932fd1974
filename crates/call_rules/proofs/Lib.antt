pub mod CallsSheet
