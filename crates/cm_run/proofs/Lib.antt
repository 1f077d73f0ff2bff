mod Sessions
mod Going
mod Beginning
