mod EntryLaws
mod NumberLaws
mod LastLaws
mod LogLaws
mod PieceLaws
