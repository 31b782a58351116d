pub mod FileCounted
