mod Numbers
mod Adding
