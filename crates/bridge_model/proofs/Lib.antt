mod AnswerRows
mod CallbackRows
mod EchoRows
mod ManagerRows
mod NodeRows
mod OnLiterals
mod OrderRows
mod Rows
