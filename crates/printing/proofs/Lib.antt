pub mod Lines
pub mod Fitting
pub mod PrintedByParts
pub mod PrinterSheet
