pub mod PrintLaws
pub mod DialogueLaws
pub mod LineLaws
