mod Buffer
mod Fronts
