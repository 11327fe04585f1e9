mod NoteSteps
mod UuidSteps
mod PeSteps
mod Steps
mod OrElse
mod Headers
mod Unmeasured
