mod Turns
mod Shapes
mod Forms
mod Said
