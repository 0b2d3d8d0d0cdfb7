mod Ops
