pub mod Every
pub mod Exported
pub mod ExportedAnswers
pub mod ExportedRecords
pub mod ExportedConnection
pub mod ExportedMemory
pub mod Uploads
