mod BodyTheorem
mod WriteEndTheorem
mod BufferTheorem
mod CheckTheorem
mod FieldTheorem
mod HeadTheorem
mod NumberTheorem
mod Written
