mod EngineCrosses
