pub mod CallLaws
pub mod EditLaws
pub mod EscapeLaws
pub mod FloatLaws
pub mod LineLaws
pub mod ShownLaws
pub mod StepLaws
pub mod TurnLaws
