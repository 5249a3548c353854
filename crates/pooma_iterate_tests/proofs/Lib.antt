mod OneView
