mod EngineEnds
mod KeptCalls
mod OneMore
mod LookBacks
mod OpenAccesses
