mod Leaves
mod Moving
mod Placed
mod Sets
mod Wide
