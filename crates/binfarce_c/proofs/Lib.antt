mod Drained
mod Listed
mod FunctionAt
mod Filled
mod SectionBytes
mod Foreign
