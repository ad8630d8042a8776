pub mod CallTexts
