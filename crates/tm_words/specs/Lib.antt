pub mod Numbers
pub mod RunWords
pub mod MakeWords
pub mod LargeWords
pub mod SettingsSet
pub mod CommandLines
pub mod Commands
