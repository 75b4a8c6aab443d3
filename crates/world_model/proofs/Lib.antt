mod CallbackRows
mod CrossingRows
mod OnLiterals
mod Rows
mod StandingRows
