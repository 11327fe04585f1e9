mod VersionSteps
mod FileSteps
mod TableSteps
mod Given
