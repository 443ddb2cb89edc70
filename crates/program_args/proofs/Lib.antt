mod Commands
mod Found
